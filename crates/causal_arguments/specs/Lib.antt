pub mod Inside
pub mod Workers
