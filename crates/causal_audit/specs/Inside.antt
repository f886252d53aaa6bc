-- Invariants of private types and contracts of private functions; no public clause cites them.
pub mod Among
pub mod PositionLists
pub mod JoinedNumbers
pub mod ByClock
pub mod Common
pub mod Group
pub mod Index
pub mod SafetyScan
pub mod DeliveryStates
