-- The files of this crate's laws.
pub mod Capped
pub mod Sizes
pub mod Listed
pub mod Arrows
