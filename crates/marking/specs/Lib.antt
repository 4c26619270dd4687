-- What the marking's readers promise, in the paper's words.
pub mod Reading
pub mod Values
