-- The lemmas that other crates may cite.
pub mod Beginnings
pub mod OrphansByCounts
pub mod NumberLemmas
pub mod OneVerdict
pub mod Parts
