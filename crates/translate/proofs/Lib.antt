-- The proofs of this crate.
pub mod Parts
pub mod Going
pub mod Calls
pub mod Paths
pub mod Shown
pub mod Terms
pub mod OnePart
pub mod Leaves
pub mod Depths
pub mod Choices
pub mod BlockTurns
pub mod ManyParts
