pub mod FoundLemmas
pub mod MixLemmas
pub mod TornLemmas
