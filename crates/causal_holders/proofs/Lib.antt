pub mod Lemmas
mod Order
mod Words
