-- Laws on paths in blocks, and on what is put in order in place.
pub mod Runs
pub mod Walks
pub mod Insertion
pub mod Slots
