-- The files of this crate's definitions.
pub mod Lexes
pub mod Seen
