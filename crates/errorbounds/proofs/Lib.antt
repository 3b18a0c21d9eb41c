pub mod Errors
pub mod Measured
