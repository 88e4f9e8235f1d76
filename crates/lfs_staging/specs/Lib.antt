pub mod Staging
pub mod Putting
pub mod Changing
pub mod Frames
pub mod Cutting
pub mod Addressing
