pub mod LegalLemmas
pub mod NumberedLemmas
pub mod RefusalLemmas
mod SinkLemmas
pub mod SumLemmas
