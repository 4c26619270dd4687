-- What judging a choice promises.
pub mod Judging
