-- Laws of judging.
pub mod Masks
pub mod Parted
pub mod Meaning
