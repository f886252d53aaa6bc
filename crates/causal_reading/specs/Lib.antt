pub mod Inside
pub mod Reads
