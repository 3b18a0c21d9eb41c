pub mod FindMove
