pub mod Node
pub mod Packets
pub mod NodeSteps
pub mod Network
pub mod Recordings
