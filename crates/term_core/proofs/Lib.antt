-- The files of this crate's laws and answers to goals.
pub mod Placed
mod Carried
pub mod Growth
pub mod Follow
mod TypedTerms
mod Keys
mod Adding
