-- The files of this crate's definitions.
pub mod Expansions
pub mod Laws
