-- The proofs of this crate.
pub mod Grown
pub mod Turns
pub mod Lasts
