-- The files of this crate's laws.
pub mod Going
pub mod Lighter
