pub mod White
pub mod InkLaws
