-- The files of this crate's laws and answers to goals.
pub mod Bounds
pub mod Values
pub mod Rows
