pub mod Packets
pub mod Calls
pub mod States
pub mod CallLaws
pub mod Systems
