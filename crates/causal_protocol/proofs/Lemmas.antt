-- Public lemmas, for the proofs of other crates.
pub mod KeptByType
pub mod StepAppends
pub mod StepProps
pub mod Reasons
pub mod LogMembers
