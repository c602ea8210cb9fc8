-- The files of this crate's laws and answers to goals.
pub mod Stopping
pub mod Sources
pub mod OneSource
pub mod Leading
