-- Laws of guards and bounds.
pub mod GuardLaws
pub mod BoundLaws
pub mod TermLaws
