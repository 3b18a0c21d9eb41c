pub mod Costs
pub mod Terms
