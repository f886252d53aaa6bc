-- Definitions that only models and private functions cite.
pub mod BatchCache
pub mod KeyWords
pub mod Merges
pub mod Ranks
pub mod SharedItems
pub mod Tables
