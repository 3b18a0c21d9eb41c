pub mod AllEight
pub mod Made
