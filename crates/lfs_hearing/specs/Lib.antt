pub mod FaultLines
pub mod Hearing
