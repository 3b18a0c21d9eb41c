pub mod Number
pub mod Bound
