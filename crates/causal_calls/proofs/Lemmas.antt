-- Lemmas of this crate that other crates may use.
pub mod Refusals
pub mod Numbers
pub mod LogViews
pub mod LogChanges
pub mod Openings
