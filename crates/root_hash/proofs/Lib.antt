-- The files of this crate's laws and answers to goals.
mod Rooted
mod Words
