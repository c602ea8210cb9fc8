-- The files of this crate's definitions.
pub mod Rows
pub mod Names
