-- The files of this crate's laws and answers to goals.
mod Ones
mod Readings
mod Turning
mod Typing
