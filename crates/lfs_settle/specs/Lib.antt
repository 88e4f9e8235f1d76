pub mod Entering
pub mod Interleaving
pub mod Settled
