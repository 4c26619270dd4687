-- Laws of chains and ranks.
pub mod Chains
