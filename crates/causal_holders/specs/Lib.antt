pub mod Inside
pub mod Members
pub mod SameMembers
