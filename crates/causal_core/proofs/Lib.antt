pub mod Lemmas
mod ProcessBegins
mod BoxLemmas
mod Cells
mod RestartCounts
mod LegalDelivery
mod MemoriesFit
mod FlushSteps
mod Forgotten
mod Members
mod ReplayDeliveries
mod RuntimeRestart
mod RuntimeSend
mod RunAfterStep
mod Rules
