-- The files of this crate's laws and answers to goals.
pub mod Places
pub mod Depths
pub mod Encoded
pub mod Joined
pub mod Patterns
pub mod Scopes
