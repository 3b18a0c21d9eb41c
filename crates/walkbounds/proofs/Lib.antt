pub mod Costs
pub mod Sweeps
pub mod Tiles
pub mod Walks
