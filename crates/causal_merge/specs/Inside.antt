-- Definitions for private contracts; no public contract cites them.
pub mod RecorderChunks
pub mod Sends
pub mod Values
pub mod Merger
pub mod OrderedRuns
