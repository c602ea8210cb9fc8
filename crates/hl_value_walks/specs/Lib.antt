-- The files of this crate's definitions.
pub mod Agree
pub mod Laws
