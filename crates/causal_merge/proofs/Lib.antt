pub mod Lemmas
mod LineLemmas
mod MapLemmas
mod Outlines
pub mod ReadLemmas
mod SendLemmas
pub mod TornLemmas
