pub mod Finding
pub mod Mixing
pub mod Starting
