-- Public lemmas, for the proofs of other crates.
pub mod Searches
pub mod Ascents
pub mod ChosenLemmas
pub mod KnowledgeGrows
pub mod MessageItems
pub mod LogLists
pub mod Slots
pub mod StoreSets
