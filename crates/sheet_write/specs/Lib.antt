-- The sheet's bytes, from the lent rows and paths.
pub mod Listing
