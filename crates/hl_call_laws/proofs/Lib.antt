-- The files of this crate's laws and answers to goals.
pub mod Arguments
pub mod Calls
