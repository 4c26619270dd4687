-- Laws of the stream's parts and of the text.
pub mod Split
pub mod Showing
pub mod Boards
pub mod Meaning
