pub mod Lemmas
mod AmongLemmas
mod Common
mod Commas
mod Between
mod Exposure
mod HeldOutside
mod Swept
mod Legal
mod DeliveryNumbers
mod NoOrphanSoFar
mod Rules
mod ShareLemmas
mod Shown
mod Steps
mod VerdictLemmas
