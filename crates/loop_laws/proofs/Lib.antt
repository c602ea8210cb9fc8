-- The files of this crate's laws and answers to goals.
pub mod Folds
pub mod Turns
pub mod Arrowed
pub mod Samples
