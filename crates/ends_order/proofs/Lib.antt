-- Laws on the order of ends.
pub mod Order
