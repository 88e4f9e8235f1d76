pub mod Answers
pub mod Asked
pub mod EntryText
pub mod Escapes
pub mod Outcomes
pub mod Numbering
pub mod Ranges
pub mod Reading
