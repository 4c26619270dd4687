-- What a step spends.
pub mod Spending
