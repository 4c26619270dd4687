-- Laws of writing a sheet, and that what is written is the paper's.
pub mod Laws
pub mod Meaning
