-- The files of this crate's definitions.
pub mod Halves
pub mod Op
pub mod Answer
pub mod Widths
pub mod Values
