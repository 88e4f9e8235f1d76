pub mod KeepingLemmas
pub mod LineLemmas
pub mod SameLemmas
pub mod FlushLemmas
pub mod StartLemmas
pub mod TalkLemmas
pub mod TellingLemmas
pub mod UpkeepLemmas
