pub mod Recovery
pub mod Transit
pub mod Invariant
pub mod Steps
pub mod Reachable
