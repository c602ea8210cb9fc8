-- The files of this crate's laws and answers to goals.
pub mod Encoded
pub mod Layers
pub mod Going
pub mod Cases
