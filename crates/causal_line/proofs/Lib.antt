pub mod Lemmas
mod EntryCounts
mod GrammarLoops
mod ItemCounts
mod Outlines
