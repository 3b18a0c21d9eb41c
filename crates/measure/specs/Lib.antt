pub mod Measure
pub mod Blocks
