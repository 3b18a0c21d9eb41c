pub mod Finite
pub mod InBits
