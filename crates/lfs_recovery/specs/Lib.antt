pub mod Course
pub mod Logs
pub mod Newest
pub mod Noted
pub mod Whole
