-- Laws that the reader of a table cites.
pub mod Laws
