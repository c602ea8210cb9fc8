-- The files of this crate's definitions.
pub mod Names
pub mod Small
pub mod Tokens
pub mod Read
pub mod View
