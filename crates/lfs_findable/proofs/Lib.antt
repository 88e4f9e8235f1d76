pub mod LogLemmas
pub mod OrderLemmas
pub mod StandingLemmas
