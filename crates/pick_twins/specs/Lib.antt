-- What twins are.
pub mod Twins
