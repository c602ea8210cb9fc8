-- The files of this crate's laws and answers to goals.
mod Parsed
pub mod Refusals
