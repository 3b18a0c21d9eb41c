pub mod Around
pub mod Local
pub mod Keeps
pub mod Walked
pub mod Reach
pub mod Touched
