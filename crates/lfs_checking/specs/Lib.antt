pub mod Files
pub mod Standing
pub mod Volumes
