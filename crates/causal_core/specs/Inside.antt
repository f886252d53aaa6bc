-- Definitions of models and private contracts; no public clause uses them.
pub mod MemoryInvariant
pub mod Gathers
pub mod DeliveryPlans
pub mod Begins
pub mod DeliveryRecords
pub mod Limits
pub mod Listings
pub mod Memories
pub mod GatherCaches
pub mod Slots
pub mod Stables
