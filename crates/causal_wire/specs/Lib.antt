pub mod Parcels
pub mod Bytes
pub mod Reading
