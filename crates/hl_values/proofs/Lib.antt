-- The files of this crate's laws and answers to goals.
pub mod Codecs
pub mod Coding
pub mod Decoding
pub mod Encoding
pub mod Lasts
pub mod OfKind
pub mod Leaving
pub mod Lists
pub mod Printing
pub mod Reading
pub mod Texts
pub mod Words
