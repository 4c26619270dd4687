-- What is answered level by level.
pub mod Reasons
