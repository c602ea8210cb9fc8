-- The files of this crate's laws and answers to goals.
mod Sound
mod Fits
mod Steps
pub mod One
