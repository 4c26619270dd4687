-- What start and finish share, and what finish asks of an action.
pub mod Delivered
pub mod Running
