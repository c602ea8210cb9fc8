-- The files of this crate's laws and answers to goals.
pub mod Names
pub mod Onto
pub mod Called
pub mod Weight
pub mod Exits
pub mod Turns
pub mod Done
pub mod Meant
pub mod Rising
pub mod Counted
pub mod Results
pub mod Spelled
pub mod Alike
pub mod OfType
pub mod Fitting
