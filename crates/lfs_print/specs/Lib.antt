pub mod AnswerText
pub mod CleanerText
pub mod CleanerWords
pub mod ReportText
