-- What the search for a choice answers.
pub mod Picking
