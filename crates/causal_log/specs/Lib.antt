pub mod Inside
pub mod Knowledge
pub mod Logs
pub mod Slots
pub mod Stores
