-- The files of this crate's definitions.
pub mod Laws
pub mod Read
pub mod Readers
