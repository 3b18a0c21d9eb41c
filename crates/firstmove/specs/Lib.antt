pub mod FirstMove
pub mod Copies
