pub mod Cursors
pub mod Filings
mod MentionedDeliveries
mod Capacities
mod Numbered
mod PackedSpans
pub mod Reachable
pub mod Receivers
pub mod DownAfterTurns
pub mod DownCounts
