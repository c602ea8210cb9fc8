-- The files of this crate's definitions.
pub mod Files
pub mod Reads
