pub mod LastNames
pub mod TestLemmas
