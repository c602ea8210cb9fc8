-- The files of this crate's definitions.
pub mod Answers
pub mod Entries
pub mod Objects
pub mod Params
pub mod Reads
pub mod Turns
