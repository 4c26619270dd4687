-- Choices as bytes and as masks.
pub mod Choice
