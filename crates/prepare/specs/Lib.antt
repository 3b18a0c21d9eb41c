pub mod Prepare
pub mod SameKernels
