pub mod SquareLaws
pub mod BlurLaws
