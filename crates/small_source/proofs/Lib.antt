-- The files of this crate's laws and answers to goals.
pub mod Lexing
pub mod Fits
pub mod Written
pub mod Fresh
pub mod Sound
pub mod Turns
pub mod Cut
pub mod Complete
pub mod Stands
