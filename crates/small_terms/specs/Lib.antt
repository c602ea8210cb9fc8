-- The files of this crate's definitions.
pub mod Tuples
pub mod Result
pub mod Plan
pub mod Kinds
pub mod Entries
pub mod Emitting
pub mod Compiled
pub mod Refusals
