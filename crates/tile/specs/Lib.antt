pub mod Tile
