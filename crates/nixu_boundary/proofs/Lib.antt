pub mod Lemmas
mod Copies
