-- The files of this crate's definitions.
pub mod Cover
pub mod Grammar
pub mod Kinds
pub mod Laws
pub mod Parts
pub mod Same
pub mod Tokens
pub mod Viable
pub mod Written
