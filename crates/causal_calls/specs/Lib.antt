pub mod Views
pub mod Parcels
pub mod Calls
pub mod StepLaws
pub mod Systems
