pub mod Kernel
pub mod Ready
