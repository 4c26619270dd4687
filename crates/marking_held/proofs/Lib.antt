-- Laws of a marking that changes.
pub mod Fillings
pub mod HoldingLaws
pub mod HeldLaws
