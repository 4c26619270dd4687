-- Laws of the operations' ladders.
pub mod Ladders
pub mod Laying
pub mod Requests
pub mod PickSteps
pub mod Exports
