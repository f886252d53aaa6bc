pub mod Inside
pub mod ScriptProcesses
pub mod Runs
pub mod Pending
pub mod Explorations
