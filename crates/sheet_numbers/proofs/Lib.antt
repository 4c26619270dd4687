-- Laws of what is written, and of decimals.
pub mod Writing
pub mod Decimals
