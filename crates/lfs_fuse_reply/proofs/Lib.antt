pub mod Lengths
pub mod Padding
