pub mod Causes
pub mod Chains
pub mod Closest
pub mod Explanations
pub mod Inside
pub mod Ranges
pub mod ProcessFacts
pub mod Underway
