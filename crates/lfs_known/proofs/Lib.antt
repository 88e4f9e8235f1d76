mod EntryLemmas
pub mod FollowLemmas
mod ShownLemmas
pub mod FullLemmas
pub mod PutLemmas
pub mod SlotLemmas
pub mod SpotLemmas
