-- Laws on ends in order.
pub mod Columns
pub mod Order
pub mod Found
pub mod Sorts
pub mod Meaning
pub mod Arranging
