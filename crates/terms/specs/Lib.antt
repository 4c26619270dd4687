-- What is said of guards and bounds.
pub mod Terms
