-- The files of this crate's laws and answers to goals.
pub mod Exprs
pub mod Items
pub mod Lengths
pub mod Matches
pub mod Pairs
pub mod Rolled
pub mod Whole
