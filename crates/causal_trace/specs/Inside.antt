-- Invariants of models and private functions; no public contract uses them.
pub mod Chains
pub mod Index
pub mod Lists
pub mod SortedDeliveries
