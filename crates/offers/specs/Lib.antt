-- Offers as rows: the view of the cells that the promises speak of.
pub mod Sets
pub mod Rows
pub mod Struct
