pub mod Lemmas
mod DefinitionsAgree
mod ReceiptChains
mod DeliveryPlaces
mod TraceIndex
mod LaneRecords
mod Rooms
mod SortedLemmas
mod Sizes
