-- Lemmas that the crates above may cite.
pub mod DeliveryNumbers
pub mod Instants
pub mod AtInstants
pub mod DependenceSteps
pub mod EntryFacts
pub mod WellFormed
pub mod CountBounds
pub mod DeliveredDets
pub mod RunProcesses
