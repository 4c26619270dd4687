-- Laws of the builder, a module for each subject.
pub mod Edges
pub mod Stages
pub mod Rising
pub mod Struct
pub mod Inputs
