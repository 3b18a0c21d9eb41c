pub mod Window
pub mod Steps
