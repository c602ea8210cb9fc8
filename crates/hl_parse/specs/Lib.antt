pub mod Answers
pub mod Exprs
pub mod Gives
pub mod Nests
pub mod Refusals
