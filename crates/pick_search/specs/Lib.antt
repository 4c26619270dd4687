-- What the search promises.
pub mod Searching
