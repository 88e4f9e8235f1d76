pub mod Change
pub mod Leave
pub mod Stamps
pub mod Times
