pub mod Taps
pub mod Rows
