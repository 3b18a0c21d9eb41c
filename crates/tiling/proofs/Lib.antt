mod Axis
pub mod Sums
pub mod TilingLaws
pub mod Sizes
