-- Definitions for private contracts; no public contract cites them.
pub mod EntryCauses
pub mod Marks
pub mod Losing
pub mod Bisection
pub mod Validities
pub mod ShortestPaths
pub mod Transits
