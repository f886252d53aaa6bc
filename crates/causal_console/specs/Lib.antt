pub mod Exits
pub mod Sources
