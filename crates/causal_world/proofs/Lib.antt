pub mod Lemmas
mod Sends
mod RoundChanges
mod Crashes
mod Delivers
mod Restarts
mod Storage
mod Worlds
mod Recovery
