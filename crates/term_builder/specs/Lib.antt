-- The files of this crate's definitions.
pub mod State
pub mod Steps
