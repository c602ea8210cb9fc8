-- The files of this crate's definitions.
pub mod Steps
pub mod Parts
