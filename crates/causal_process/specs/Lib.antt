pub mod Bodies
pub mod Inside
pub mod Kinds
pub mod Laws
pub mod ReactionLaws
pub mod Limits
pub mod Reactions
