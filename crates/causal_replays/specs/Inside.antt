-- Definitions that only private functions cite.
pub mod Holdings
pub mod Copies
pub mod Slots
pub mod Rivals
