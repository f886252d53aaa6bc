-- Public lemmas, for the proofs of other crates.
pub mod RiseCounts
