-- The files of this crate's definitions.
pub mod Here
pub mod Fits
pub mod Forms
pub mod Parts
pub mod Blocks
