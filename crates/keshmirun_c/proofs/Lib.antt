-- What the exports say.
pub mod Exports
