-- Laws of sets as words, of rules and nets, and of bounds.
pub mod Sets
pub mod Rules
pub mod FourKinds
pub mod Pruning
