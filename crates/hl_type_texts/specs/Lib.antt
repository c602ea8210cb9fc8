-- The files of this crate's definitions.
pub mod Answers
pub mod Texts
