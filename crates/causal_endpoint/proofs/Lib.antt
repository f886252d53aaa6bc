pub mod Reasons
pub mod Written
pub mod Acknowledged
