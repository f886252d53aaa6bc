-- Lemmas of this crate that other crates may use.
pub mod ListInsert
