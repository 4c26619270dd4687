-- What the search at a join promises.
pub mod Joins
