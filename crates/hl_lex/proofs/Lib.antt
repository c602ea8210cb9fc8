-- The files of this crate's laws and answers to goals.
mod Closers
mod Decimals
mod Steps
mod Words
