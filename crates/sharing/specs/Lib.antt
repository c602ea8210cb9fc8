-- The files of this crate's definitions.
pub mod Images
pub mod Laws
pub mod Leaves
