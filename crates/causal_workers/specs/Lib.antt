pub mod Inside
pub mod Judgements
pub mod Streaming
