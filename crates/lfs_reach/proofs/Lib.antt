pub mod BlockLemmas
pub mod ReachLemmas
pub mod WalkLemmas
