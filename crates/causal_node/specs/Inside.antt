-- Definitions that only models and private functions cite.
pub mod ReceivedNames
