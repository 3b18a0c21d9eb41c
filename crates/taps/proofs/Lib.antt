pub mod TapLaws
pub mod ChangedLaws
pub mod RowLaws
