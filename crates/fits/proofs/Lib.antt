pub mod Limits
pub mod FirstNotBelow
mod LargestLaws
pub mod Places
