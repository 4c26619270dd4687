-- Laws of the values that come, of the nodes that are touched, and of what is held then.
pub mod Gaining
pub mod Touching
pub mod GainedHeld
