-- Public lemmas, for the proofs of other crates.
pub mod Functions
pub mod Transit
pub mod ReachableWorlds
