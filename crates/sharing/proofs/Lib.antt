-- The files of this crate's laws and answers to goals.
pub mod Closed
pub mod Merging
pub mod Walks
pub mod Orderly
pub mod Gathering
pub mod Gathered
pub mod Merged
pub mod Reordered
pub mod Unfolded
pub mod Placing
pub mod Cuts
pub mod Pruned
pub mod Lockstep
pub mod CanonOne
pub mod Standing
pub mod Leaves
