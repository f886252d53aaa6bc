pub mod Begun
pub mod Link
pub mod ClockEvents
pub mod ReachedEntries
