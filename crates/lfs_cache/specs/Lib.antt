pub mod Changes
pub mod Contents
pub mod Ends
pub mod Frames
pub mod Held
pub mod Index
pub mod Keys
