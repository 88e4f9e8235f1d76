pub mod DiskLemmas
pub mod FiledLemmas
pub mod OptionLemmas
pub mod ShellLemmas
pub mod StandLemmas
pub mod VolumeLemmas
