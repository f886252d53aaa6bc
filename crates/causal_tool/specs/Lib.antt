pub mod Invocations
pub mod Commands
