-- The files of this crate's laws and answers to goals.
mod Depths
mod Stacks
mod OwnTypes
