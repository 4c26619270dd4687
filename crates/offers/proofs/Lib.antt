-- Laws of rows, a module for each subject.
pub mod Sets
pub mod Cells
pub mod Rows
pub mod Segments
