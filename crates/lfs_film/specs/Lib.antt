pub mod Quoting
pub mod Frames
pub mod Films
