pub mod Inside
pub mod Places
pub mod Fields
pub mod Sentences
pub mod Lines
pub mod Bounds
pub mod Findings
pub mod Answers
