pub mod CallRuns
pub mod Cleanings
pub mod Copies
pub mod Journals
pub mod Seen
pub mod StepRuns
