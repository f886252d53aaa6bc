-- Lemmas that the crates above may cite.
pub mod CanonicalParts
pub mod LineCounts
