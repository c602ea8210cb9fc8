-- The former of lists.
pub mod Sequence
