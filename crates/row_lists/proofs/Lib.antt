-- The files of this crate's laws and answers to goals.
pub mod Meaning
pub mod Steps
pub mod Typed
pub mod Listing
