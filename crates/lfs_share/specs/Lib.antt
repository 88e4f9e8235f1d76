pub mod Share
pub mod Growing
pub mod Telling
pub mod Answering
pub mod CleanerCalls
