pub mod Answering
pub mod CleanerCalls
pub mod Finding
pub mod Keeping
pub mod Layout
pub mod Runs
