-- Laws of a marking that is ended.
pub mod Clearing
