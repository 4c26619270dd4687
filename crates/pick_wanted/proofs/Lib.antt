-- Laws of masks of ends.
pub mod Masks
