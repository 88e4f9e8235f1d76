pub mod CourseLemmas
pub mod LogLemmas
pub mod NewestLemmas
pub mod RecordLemmas
pub mod WholeLemmas
