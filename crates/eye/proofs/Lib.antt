mod CeilLaws
mod NonNegative
pub mod EyeLaws
