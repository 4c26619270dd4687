-- What the arrays of row 4 hold.
pub mod Shape
