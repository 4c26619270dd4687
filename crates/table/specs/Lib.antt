-- What the readers of a table promise, in the paper's words.
pub mod Reading
pub mod Incoming
