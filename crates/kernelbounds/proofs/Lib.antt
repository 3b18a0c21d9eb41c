pub mod Exp
pub mod Width
pub mod Gauss
pub mod Kernels
