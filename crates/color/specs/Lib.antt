pub mod YyCxCz
pub mod Inks
pub mod Values
