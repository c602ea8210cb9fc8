-- The files of this crate's laws and answers to goals.
pub mod Leading
mod There
pub mod One
