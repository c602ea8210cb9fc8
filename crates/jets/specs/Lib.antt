-- The files of this crate's definitions.
pub mod Unsigned
pub mod Jet
pub mod Formula
