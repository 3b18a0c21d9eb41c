pub mod Every
pub mod NearestLaw
pub mod LutLaws
