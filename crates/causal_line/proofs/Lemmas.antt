-- Lemmas that the crates above may cite.
pub mod CompleteLines
pub mod LineBytes
pub mod Passed
pub mod DefinedErrors
pub mod Unfit
pub mod Values
