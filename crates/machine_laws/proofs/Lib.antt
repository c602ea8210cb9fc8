-- The files of this crate's laws and answers to goals.
pub mod Moves
pub mod Lands
pub mod Forms
pub mod Tags
pub mod Sides
pub mod Between
pub mod Simulation
pub mod Growing
pub mod Traces
pub mod Layers
pub mod Steps
pub mod Written
mod Rows
