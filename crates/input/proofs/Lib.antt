mod EyeValidity
pub mod InputLaws
pub mod Validity
pub mod RowsOf
