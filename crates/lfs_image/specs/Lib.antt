pub mod Image
pub mod Heads
pub mod Faults
