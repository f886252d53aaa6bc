-- Invariants of models and contracts of private functions; no public clause cites them.
pub mod ResultConversions
pub mod Props
pub mod ItemAppends
pub mod Sections
pub mod SeatChecks
pub mod FinishChecks
pub mod CountingCalls
