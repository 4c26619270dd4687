-- What the list of ends in order promises, and the slots that it is told in.
pub mod Ends
pub mod Slots
