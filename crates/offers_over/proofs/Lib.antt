-- Laws of what goes over an edge, a module for each subject.
pub mod Gates
pub mod Outcomes
pub mod Parts
