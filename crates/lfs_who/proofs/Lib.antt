pub mod GroupLemmas
pub mod UserLemmas
pub mod ActLemmas
