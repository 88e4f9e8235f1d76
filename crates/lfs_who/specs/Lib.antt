pub mod Acts
pub mod Conditions
pub mod Lines
pub mod Who
pub mod WhoText
