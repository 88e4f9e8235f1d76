pub mod FitLemmas
pub mod OverLemmas
