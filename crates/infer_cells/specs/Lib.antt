-- The files of this crate's definitions.
pub mod Cells
pub mod Merged
pub mod Walk
pub mod Emission
pub mod Constrained
pub mod Typings
pub mod Ids
pub mod Shrunk
