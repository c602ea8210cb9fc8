-- The files of this crate's laws and answers to goals.
pub mod Recoded
pub mod Encodings
pub mod Loops
pub mod Truths
pub mod Jets
pub mod Programs
