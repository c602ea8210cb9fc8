-- The files of this crate's definitions.
pub mod Data
pub mod Above
pub mod Loads
pub mod Steps
