pub mod Inside
pub mod Events
pub mod Survivors
pub mod Facts
pub mod Reasons
pub mod Drawings
