pub mod Judging
pub mod Checking
pub mod Alike
pub mod Errors
pub mod Copying
