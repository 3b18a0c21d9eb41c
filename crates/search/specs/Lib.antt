pub mod Shared
pub mod Search
pub mod Fast
