pub mod Askings
pub mod ExplainLemmas
pub mod LookLemmas
pub mod MoveLemmas
pub mod Pushed
pub mod StepsTold
pub mod TableLemmas
pub mod TrailLemmas
