-- The files of this crate's definitions.
pub mod Kinds
pub mod Code
pub mod Rows
pub mod Steps
