-- Laws that the proofs of row 4 cite.
pub mod Laws
