-- What ranks are.
pub mod Chains
