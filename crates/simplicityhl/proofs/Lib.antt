-- The files of this crate's laws and answers to goals.
mod Cover
pub mod Fronts
mod Rows
mod RowKinds
