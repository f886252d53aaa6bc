pub mod CallLemmas
pub mod MoveLemmas
