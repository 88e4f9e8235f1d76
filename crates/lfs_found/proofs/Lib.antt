pub mod ChainLemmas
pub mod NamedLemmas
pub mod NewLemmas
pub mod RecoverableLemmas
pub mod WrittenLemmas
