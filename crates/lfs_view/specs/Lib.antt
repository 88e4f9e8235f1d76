pub mod Cells
pub mod MapText
pub mod SegmentText
pub mod SpaceText
pub mod Rows
pub mod Owners
