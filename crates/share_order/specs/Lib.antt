-- The files of this crate's definitions.
pub mod Steps
pub mod Keys
pub mod Merged
pub mod Told
pub mod Least
pub mod Refusals
