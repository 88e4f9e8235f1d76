pub mod Asked
pub mod Ranges
pub mod Talks
pub mod Volumes
