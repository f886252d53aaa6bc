mod FactLines
mod Joining
pub mod Lemmas
mod Printable
mod SetMembers
