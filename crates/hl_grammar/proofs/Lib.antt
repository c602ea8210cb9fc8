-- The files of this crate's laws and answers to goals.
pub mod Alike
pub mod Exact
pub mod Exprs
pub mod Forms
pub mod Lists
pub mod Patterns
pub mod Places
pub mod Programs
pub mod Readables
pub mod Regular
pub mod Starts
pub mod Tokens
pub mod Types
pub mod Whole
