-- Invariants of models and definitions of private functions; no public contract uses them.
pub mod Chunks
pub mod Contexts
pub mod LineByLine
pub mod PartialLines
