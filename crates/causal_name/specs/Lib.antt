pub mod Names
pub mod Sets
pub mod SameDets
