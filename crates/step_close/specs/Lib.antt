-- Whether a step ends the marking.
pub mod Closing
