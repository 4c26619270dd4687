-- Laws of choices as bytes and as masks.
pub mod Laws
