-- The files of this crate's definitions.
pub mod Checks
pub mod Contexts
pub mod Heads
pub mod Leaves
