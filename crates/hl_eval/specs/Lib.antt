-- The files of this crate's definitions.
pub mod Bindings
pub mod Complete
pub mod Outcome
pub mod Over
pub mod Here
pub mod Turned
pub mod Uses
pub mod Worded
pub mod Valued
pub mod Evaluated
