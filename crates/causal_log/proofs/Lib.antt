pub mod Lemmas
mod EntryLemmas
mod PlaceLemmas
mod KnownLemmas
mod TableLemmas
mod MergeLemmas
mod Rules
