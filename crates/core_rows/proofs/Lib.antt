-- The files of this crate's laws and answers to goals.
mod MachineRows
mod Called
mod RunRows
mod RowMerged
mod RowCanon
mod OwnTypes
