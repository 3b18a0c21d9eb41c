pub mod RowLaws
pub mod Parts
