-- The files of this crate's laws and answers to goals.
pub mod Scopes
pub mod Fits
pub mod Answers
pub mod Bound
pub mod Arms
pub mod Called
pub mod Loops
pub mod Converted
pub mod Bodies
pub mod Programs
