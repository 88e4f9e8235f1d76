pub mod Numbered
pub mod Refusals
pub mod Sums
