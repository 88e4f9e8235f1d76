pub mod Crossing
pub mod MakingLemmas
pub mod ServeLemmas
