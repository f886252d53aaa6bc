-- Definitions of the crate's documentation example; no public clause uses them.
pub mod Example
