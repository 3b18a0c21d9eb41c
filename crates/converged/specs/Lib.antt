pub mod Order
pub mod Converged
