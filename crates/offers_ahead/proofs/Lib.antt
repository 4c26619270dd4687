-- Laws of dead searches.
pub mod Laws
