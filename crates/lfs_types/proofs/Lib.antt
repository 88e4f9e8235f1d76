pub mod Contents
pub mod Cuts
pub mod Maps
pub mod NameLemmas
pub mod Pieces
pub mod Somewhere
