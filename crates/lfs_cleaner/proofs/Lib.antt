pub mod ChoosingLemmas
pub mod PassLemmas
