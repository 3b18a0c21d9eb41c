pub mod Fits
pub mod Folds
