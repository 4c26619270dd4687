-- What a step brings.
pub mod Gains
