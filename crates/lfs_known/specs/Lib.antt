pub mod Says
pub mod Shown
pub mod Full
pub mod Places
pub mod NameSlots
pub mod NamesSaid
pub mod Spots
