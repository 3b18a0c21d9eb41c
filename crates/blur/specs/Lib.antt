pub mod Blur
