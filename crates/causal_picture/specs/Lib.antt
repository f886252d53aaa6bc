pub mod Drawings
pub mod EntryRanges
pub mod Inside
mod Layout
pub mod Marks
pub mod Pictures
pub mod Resent
pub mod Roles
pub mod Rows
pub mod Selections
pub mod Writes
