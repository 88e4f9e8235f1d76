pub mod ApplyLemmas
pub mod CallLemmas
pub mod CrashLemmas
pub mod FitLemmas
pub mod KeepLemmas
pub mod RunLemmas
pub mod WorldLemmas
