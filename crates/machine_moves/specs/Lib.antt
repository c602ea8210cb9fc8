-- The files of this crate's definitions.
pub mod Traced
pub mod Moves
pub mod Laws
