-- Laws of masks, of what starts and of what is unfit.
pub mod Masks
pub mod Starting
pub mod Unfit
