pub mod Infos
pub mod Names
pub mod Packing
pub mod Parts
