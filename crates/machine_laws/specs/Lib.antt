-- The files of this crate's definitions.
pub mod Layers
pub mod Written
pub mod Laws
