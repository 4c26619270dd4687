-- What is asked about a board.
pub mod Asking
