-- The files of this crate's laws and answers to goals.
mod Merges
mod Fitting
mod Linked
mod Steps
mod Leasts
mod Paths
mod Doubles
mod Grown
mod Ready
mod Sound
mod Complete
mod RowCells
mod Constraint
mod Turns
mod Listed
pub mod ShownLists
mod Shrinking
mod Shrunk
