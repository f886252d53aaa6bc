-- Definitions for private contracts; no public contract cites them.
pub mod Answers
pub mod Refusals
pub mod Placing
pub mod MappedAnswers
