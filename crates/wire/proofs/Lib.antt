-- Laws of runs of stores, and of answers in one word.
pub mod Laws
pub mod OneAnswer
pub mod Runs
