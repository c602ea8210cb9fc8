-- The files of this crate's laws and answers to goals.
pub mod Finds
pub mod FirstPlaces
pub mod Outer
pub mod Params
pub mod Parts
pub mod Rising
pub mod Sounds
