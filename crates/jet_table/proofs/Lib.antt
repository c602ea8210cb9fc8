-- The files of this crate's laws and answers to goals.
pub mod Written
pub mod Found
pub mod Listed
pub mod Packed
