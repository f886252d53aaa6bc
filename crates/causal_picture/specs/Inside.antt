pub mod Downs
pub mod Members
