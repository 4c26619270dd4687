-- What is promised of paths in blocks.
pub mod Blocks
