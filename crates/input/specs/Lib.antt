pub mod Input
pub mod Inputs
pub mod Valid
pub mod Rows
