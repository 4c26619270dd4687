-- What a writer leaves in the bytes it is lent.
pub mod Written
