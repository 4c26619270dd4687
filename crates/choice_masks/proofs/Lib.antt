-- Laws of masks of ends.
pub mod Masking
