-- The files of this crate's definitions.
pub mod Codes
pub mod Frames
