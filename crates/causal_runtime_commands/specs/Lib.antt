pub mod Inside
pub mod Hints
pub mod Reasons
pub mod Runs
