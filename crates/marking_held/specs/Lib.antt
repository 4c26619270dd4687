-- What the code that changes a marking promises, in the paper's words.
pub mod Filling
pub mod MarkingHeld
