-- Lemmas that the crates above may cite.
pub mod Moves
