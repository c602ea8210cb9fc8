-- The files of this crate's laws and answers to goals.
pub mod Later
pub mod Meets
pub mod Tests
pub mod Halved
pub mod Blocks
pub mod Along
