-- The files of this crate's laws and answers to goals.
pub mod Fine
pub mod Types
pub mod Names
pub mod Patterns
pub mod Here
pub mod Again
pub mod Leaves
pub mod Many
pub mod Blocks
pub mod Bodies
pub mod Items
pub mod Entries
