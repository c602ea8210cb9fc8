-- The files of this crate's definitions.
pub mod Patterns
pub mod Typing
pub mod Erased
pub mod Programs
pub mod Names
pub mod Laws
