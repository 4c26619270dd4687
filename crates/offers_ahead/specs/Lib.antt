-- What the look-ahead promises.
pub mod Dead
