-- The files of this crate's definitions.
pub mod Renders
pub mod Laws
