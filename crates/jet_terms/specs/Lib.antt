-- The files of this crate's definitions.
pub mod Trees
pub mod Expansions
pub mod Laws
