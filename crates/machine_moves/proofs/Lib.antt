-- The files of this crate's laws.
pub mod Taken
pub mod Written
