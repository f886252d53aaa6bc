pub mod OpenDeliveries
pub mod Rows
pub mod Walk
