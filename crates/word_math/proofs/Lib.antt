-- The files of this crate's laws and answers to goals.
pub mod Fits
pub mod Moved
pub mod Listed
pub mod Halved
