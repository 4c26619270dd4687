-- Laws of start and finish on a table that was read.
pub mod Delivering
pub mod StartLaws
pub mod RunningLaws
pub mod IdledLaws
pub mod FinishLaws
