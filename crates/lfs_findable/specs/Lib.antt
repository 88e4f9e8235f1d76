pub mod Judging
pub mod Maps
