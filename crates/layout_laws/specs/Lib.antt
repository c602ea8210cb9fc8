-- The files of this crate's definitions.
pub mod Scopes
pub mod Laws
