-- The files of this crate's definitions.
pub mod Reading
pub mod Laws
pub mod Places
pub mod Stops
pub mod Parts
pub mod Values
pub mod Refusals
