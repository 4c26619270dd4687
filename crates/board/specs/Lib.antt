-- What is read of a board.
pub mod Reading
