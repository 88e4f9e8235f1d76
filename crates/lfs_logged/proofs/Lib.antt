pub mod CountLemmas
pub mod LeavingLemmas
