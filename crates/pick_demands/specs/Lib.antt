-- What is asked of open ends.
pub mod Demands
