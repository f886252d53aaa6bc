pub mod ReadPositions
pub mod Canonical
pub mod PartialWrites
