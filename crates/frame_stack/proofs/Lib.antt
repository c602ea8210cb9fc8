-- The files of this crate's laws.
pub mod Parts
pub mod Changes
pub mod Spans
pub mod Lying
pub mod Moves
