pub mod Inside
pub mod Lines
pub mod Spelling
pub mod Faults
pub mod Laws
pub mod Printing
