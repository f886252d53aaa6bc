pub mod ProcessMemories
pub mod Outboxes
pub mod Namings
pub mod DeliveryPlans
pub mod RestartPlans
