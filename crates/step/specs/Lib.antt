-- What a step is made on.
pub mod Stepping
