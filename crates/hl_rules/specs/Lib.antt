-- The files of this crate's definitions.
pub mod Same
pub mod Names
pub mod Steps
pub mod Walks
pub mod Places
pub mod Patterns
pub mod Exprs
pub mod Declared
pub mod Programs
pub mod Witnesses
pub mod Before
pub mod Occurs
pub mod Written
pub mod Breaks
