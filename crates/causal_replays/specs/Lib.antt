pub mod Strays
pub mod Inside
