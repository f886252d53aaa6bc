pub mod Inside
pub mod Precedence
pub mod Rises
pub mod Timeline
