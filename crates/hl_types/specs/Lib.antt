-- The files of this crate's definitions.
pub mod Answers
pub mod Ids
pub mod Walks
