-- Definitions of private functions; no public contract uses them.
pub mod Feeding
pub mod Sharing
pub mod PartReading
