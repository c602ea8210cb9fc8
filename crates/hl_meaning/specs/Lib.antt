-- The files of this crate's definitions.
pub mod Literals
pub mod Values
pub mod Entries
pub mod Answer
pub mod Scopes
pub mod Jets
pub mod Loops
pub mod Mean
