-- Laws of marks, and of what two words have in common.
pub mod Marks
pub mod Ones
