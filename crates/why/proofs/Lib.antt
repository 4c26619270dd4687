-- Laws of levels on the columns and the net.
pub mod Own
pub mod Nets
pub mod Asked
