pub mod Answering
pub mod CleanerCalls
pub mod Fitting
pub mod Keeping
pub mod Runs
pub mod Surviving
