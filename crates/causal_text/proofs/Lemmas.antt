-- Lemmas that the crates above may cite.
pub mod Exact
pub mod GoesOn
