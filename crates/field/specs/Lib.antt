pub mod Field
pub mod Lines
