-- Definitions of private functions; no public contract uses them.
pub mod Messages
pub mod Parsed
