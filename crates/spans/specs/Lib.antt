pub mod Add
pub mod Spans
