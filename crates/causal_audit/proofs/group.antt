pub mod GroupWalk
pub mod GroupReach
pub mod OpenPositions
pub mod RowSlots
