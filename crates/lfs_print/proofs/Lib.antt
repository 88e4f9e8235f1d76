pub mod PrintLemmas
pub mod ReportLemmas
