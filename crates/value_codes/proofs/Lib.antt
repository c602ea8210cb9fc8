-- The files of this crate's laws and answers to goals.
pub mod Codecs
pub mod Lists
pub mod Words
pub mod Coding
pub mod Codes
