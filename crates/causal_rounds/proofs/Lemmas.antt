-- Public lemmas, for the proofs of other crates.
pub mod RoundSteps
pub mod GatheredSteps
pub mod AcceptanceSteps
