-- The files of this crate's laws and answers to goals.
pub mod Alike
mod Decimals
pub mod Drops
mod Equal
mod Found
pub mod Halves
pub mod Parts
mod Tuples
mod Walked
