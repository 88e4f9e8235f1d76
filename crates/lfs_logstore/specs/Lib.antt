pub mod Answering
pub mod CleanerCalls
pub mod Cleaning
pub mod Frames
pub mod Gaining
pub mod Marking
pub mod States
