-- The files of this crate's definitions.
pub mod Held
pub mod Places
