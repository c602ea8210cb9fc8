-- The files of this crate's definitions.
pub mod Gives
pub mod Nests
