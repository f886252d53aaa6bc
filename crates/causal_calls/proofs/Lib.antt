pub mod Lemmas
mod Names
mod Keeps
mod UpCalls
mod DownCalls
mod Steps
mod Networks
