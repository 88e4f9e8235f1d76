pub mod CourseLemmas
pub mod EndLemmas
pub mod FilingLemmas
pub mod FrontLemmas
pub mod LedLemmas
pub mod StandLemmas
pub mod TalkLemmas
pub mod VolumeLemmas
