pub mod Fresh
pub mod Serving
pub mod Telling
pub mod Unserved
