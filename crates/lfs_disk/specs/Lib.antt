pub mod Calls
pub mod Disk
pub mod Flushing
pub mod Memory
pub mod Mirroring
pub mod Writing
