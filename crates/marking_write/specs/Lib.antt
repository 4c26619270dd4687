-- What the writer of a marking promises, in the paper's words.
pub mod Writing
