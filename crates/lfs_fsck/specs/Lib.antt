pub mod Names
pub mod Stored
pub mod Faults
pub mod Checks
