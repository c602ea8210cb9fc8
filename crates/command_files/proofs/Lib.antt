-- The files of this crate's laws and answers to goals.
mod Reading
mod Reached
pub mod Whole
