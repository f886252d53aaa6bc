-- Contracts of private functions; no public clause cites them.
pub mod Appends
