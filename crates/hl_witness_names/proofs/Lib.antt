-- The files of this crate's laws and answers to goals.
pub mod Layers
pub mod Trees
pub mod Unnamed
pub mod Held
