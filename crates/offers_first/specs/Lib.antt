-- What an edge carries first.
pub mod Starts
