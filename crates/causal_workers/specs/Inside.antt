-- Invariants and contracts of private functions; no public clause cites them.
pub mod PieceOutcomes
pub mod Shares
