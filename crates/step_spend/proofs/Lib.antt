-- Laws of what is spent.
pub mod Spends
pub mod SpentHeld
