pub mod Laws
pub mod FirstFound
pub mod Walks
pub mod ZeroPlus
pub mod Copies
pub mod Pixel
pub mod Rooms
