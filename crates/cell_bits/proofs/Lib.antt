-- The files of this crate's laws and answers to goals.
pub mod Bits
pub mod Reading
pub mod Answered
