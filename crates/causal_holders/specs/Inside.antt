-- Definitions that only models and private functions cite.
pub mod Words
pub mod WordLemmas
