pub mod Lemmas
pub mod Excerpts
mod MergeLemmas
mod ReadLemmas
