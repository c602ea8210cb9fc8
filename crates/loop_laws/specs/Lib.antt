-- The files of this crate's definitions.
pub mod Trees
pub mod Laws
