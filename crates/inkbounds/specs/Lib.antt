pub mod Inks
