-- The files of this crate's laws.
pub mod Parts
