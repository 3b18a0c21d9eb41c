pub mod Lut
pub mod Transfer
