-- What the text's writers promise, over the bytes they are lent.
pub mod Printed
pub mod Sheets
