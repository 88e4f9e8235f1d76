mod AlikeLemmas
mod ListedLemmas
mod PieceLemmas
mod CheckLemmas
mod Uncrowded
mod StandingLemmas
pub mod ErrorLemmas
pub mod CopyLemmas
pub mod OverLemmas
