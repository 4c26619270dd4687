-- Laws of what the operations answer for a stream.
pub mod Refusals
pub mod Answers
