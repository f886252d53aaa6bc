pub mod Inside
pub mod PlacedLines
pub mod MappedReasons
pub mod Ranges
pub mod Questions
pub mod Answers
pub mod PrintedAnswers
pub mod Drawings
