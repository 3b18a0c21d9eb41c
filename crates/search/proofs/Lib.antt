pub mod Window
pub mod FastLaws
pub mod Order
pub mod Laws
