pub mod Rects
pub mod RecordLaws
pub mod RegionLaws
