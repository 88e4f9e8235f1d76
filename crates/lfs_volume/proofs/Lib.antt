pub mod AskedLemmas
pub mod CallLemmas
pub mod CleaningLemmas
pub mod Crossing
pub mod JournalLemmas
pub mod OpeningLemmas
pub mod StepLemmas
pub mod SyncLemmas
