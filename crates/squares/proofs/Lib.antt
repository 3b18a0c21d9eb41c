pub mod SquareLaws
