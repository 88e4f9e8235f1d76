pub mod TextLemmas
pub mod WalkLemmas
pub mod SpaceLemmas
