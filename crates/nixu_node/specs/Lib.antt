pub mod OpenNodes
pub mod Keeping
pub mod Lines
pub mod Refusals
pub mod Structs
pub mod Calls
