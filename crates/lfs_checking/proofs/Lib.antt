pub mod ReadLemmas
pub mod FlushedLemmas
pub mod StandingLemmas
pub mod VolumeLemmas
