pub mod Buffers
pub mod Determinants
pub mod Flags
pub mod Handles
