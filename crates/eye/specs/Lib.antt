pub mod Constants
pub mod Ceil
pub mod Eye
