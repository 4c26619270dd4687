-- What is known of a stream once its sheet is there.
pub mod Shown
