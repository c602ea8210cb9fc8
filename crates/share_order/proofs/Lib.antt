-- The files of this crate's laws and answers to goals.
mod Walking
mod Classing
mod Placed
mod Rooted
mod Told
mod Meant
mod Keyed
mod Ordering
mod Gathers
mod Emitted
mod Leasts
mod Sharings
mod Reorders
mod Whole
