pub mod Rounding
pub mod Within
pub mod Ranges
pub mod Sums
pub mod Bits
