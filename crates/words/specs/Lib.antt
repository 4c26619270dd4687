-- What words of offers say, and what marks say.
pub mod Clash
pub mod Marks
