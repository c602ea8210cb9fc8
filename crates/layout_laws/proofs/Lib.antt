-- The files of this crate's laws and answers to goals.
pub mod Shapes
pub mod Ways
pub mod Scopes
