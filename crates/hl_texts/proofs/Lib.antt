-- The files of this crate's laws and answers to goals.
pub mod Layers
pub mod Numbers
pub mod One
pub mod Parts
pub mod Pieces
pub mod RoundTrip
pub mod Shallow
pub mod Standing
