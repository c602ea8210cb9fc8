-- The files of this crate's laws and answers to goals.
mod Alone
pub mod Passed
pub mod Turns
