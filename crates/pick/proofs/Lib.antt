-- Laws of what the search found.
pub mod Laws
