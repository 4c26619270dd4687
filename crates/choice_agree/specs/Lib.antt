-- What it means that destinations agree.
pub mod Agreeing
