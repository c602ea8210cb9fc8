-- The files of this crate's definitions.
pub mod Build
pub mod Outcome
pub mod Answer
pub mod Built
pub mod Answered
