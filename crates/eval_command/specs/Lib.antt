-- The files of this crate's definitions.
pub mod Evaluation
pub mod Parts
pub mod Law
