pub mod BlockLemmas
pub mod MomentLemmas
pub mod WayLemmas
pub mod CrashLemmas
pub mod FlushLemmas
pub mod FollowLemmas
pub mod CallLemmas
