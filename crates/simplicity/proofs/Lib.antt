-- The files of this crate's laws and answers to goals.
pub mod Naturals
pub mod Carries
pub mod Rows
mod RowBits
pub mod RowRuns
mod RowRoots
mod RowRefusals
mod RowWitness
pub mod RowPruned
pub mod Inversion
pub mod Typings
pub mod Below
mod RowTypings
pub mod Sharing
mod RowAccepted
pub mod Values
pub mod Meaning
pub mod Unfold
pub mod Trees
pub mod Bits
pub mod Tuples
pub mod Spell
mod More
pub mod Arrows
pub mod Flowed
pub mod Digits
pub mod Loops
mod RowTerms
pub mod Listed
