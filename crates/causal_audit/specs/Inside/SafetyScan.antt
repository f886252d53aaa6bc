pub mod Scans
pub mod Persistence
