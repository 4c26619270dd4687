-- What the builder of offers promises.
pub mod Stages
