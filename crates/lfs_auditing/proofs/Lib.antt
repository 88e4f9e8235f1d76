mod AuditLemmas
mod BeginLemmas
mod EndLemmas
mod PlaceLemmas
mod JsonLemmas
mod UserLemmas
