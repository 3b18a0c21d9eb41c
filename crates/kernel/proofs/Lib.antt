pub mod OverlapLaws
mod OverwriteLaws
pub mod KernelLaws
