-- Laws of a step, row by row, of its stages, and of its end.
pub mod Laws
pub mod Calling
pub mod Moving
pub mod Closing
