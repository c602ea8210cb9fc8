-- The files of this crate's laws and answers to goals.
mod Allowed
mod Answering
mod OneOutcome
mod Small
