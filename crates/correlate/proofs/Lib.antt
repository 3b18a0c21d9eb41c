pub mod RowLaws
pub mod SpreadLaws
