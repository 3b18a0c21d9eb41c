pub mod Passes
pub mod Ends
