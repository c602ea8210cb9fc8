-- The files of this crate's definitions.
pub mod Leaves
pub mod Canons
