pub mod CallLemmas
pub mod DiskLemmas
pub mod FindLemmas
pub mod FollowLemmas
pub mod GainLemmas
pub mod RunLemmas
pub mod StateLemmas
pub mod StepLemmas
