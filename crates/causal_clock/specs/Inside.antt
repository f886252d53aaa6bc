-- Definitions that only models and private functions cite.
pub mod Columns
pub mod Fields
pub mod EventCounts
pub mod Lanes
pub mod Row
