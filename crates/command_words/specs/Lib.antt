-- The files of this crate's definitions.
pub mod Editions
pub mod Keys
pub mod Words
pub mod Asked
