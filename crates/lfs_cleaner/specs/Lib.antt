pub mod Choosing
pub mod Passing
