-- Laws of seated boards: the paper's words on choices, said of rows and columns; and those that masks of ends and columns are proved by.
pub mod Numbers
pub mod Taking
pub mod Rules
pub mod Allowed
pub mod Masks
