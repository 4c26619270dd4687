-- Laws of the net: how it grows, what its rows say in the words of seating, that all of them say what is allowed, and what pick has of it.
pub mod Rows
pub mod Masks
pub mod Kept
pub mod Destinations
pub mod Allowed
pub mod Picking
