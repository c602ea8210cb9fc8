-- The files of this crate's laws and answers to goals.
pub mod Basics
pub mod Numbers
pub mod Nodes
pub mod Places
pub mod Programs
pub mod Refusals
pub mod Rows
pub mod Counted
pub mod Stopped
pub mod Parts
pub mod Values
pub mod Named
pub mod NamedNodes
