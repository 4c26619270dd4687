-- Laws of the board's ladder, and of a board that was read.
pub mod Ladder
pub mod BoardLaws
