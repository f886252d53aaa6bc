-- Public lemmas, for the proofs of other crates.
pub mod Positions
pub mod Reachable
pub mod Followed
