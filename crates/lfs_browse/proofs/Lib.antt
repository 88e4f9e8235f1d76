pub mod AskLemmas
pub mod ContentLemmas
pub mod ListingLemmas
pub mod WalkLemmas
