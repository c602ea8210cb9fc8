-- The files of this crate's laws and answers to goals.
pub mod Growth
mod Places
mod Tables
mod Stacks
pub mod Words
