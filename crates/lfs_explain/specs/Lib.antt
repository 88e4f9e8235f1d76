pub mod Asked
pub mod Classes
pub mod Tables
pub mod Trails
