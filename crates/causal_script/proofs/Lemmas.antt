-- Lemmas on what a text spells, separate from those on the functions that parse it.
pub mod Exact
