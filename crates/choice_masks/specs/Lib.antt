-- What masks of ends say.
pub mod Masks
