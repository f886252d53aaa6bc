pub mod World
pub mod Steps
pub mod Invariant
pub mod Reachable
