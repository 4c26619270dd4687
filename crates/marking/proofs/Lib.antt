-- Laws that the proofs about reading a marking cite.
pub mod Laws
pub mod ValueLaws
