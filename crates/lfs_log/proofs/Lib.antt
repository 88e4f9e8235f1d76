pub mod PartsLemmas
pub mod NameLemmas
pub mod LiveLemmas
pub mod PackingLemmas
pub mod ScanLemmas
pub mod FoundLemmas
pub mod TakeLemmas
