-- The files of this crate's laws and answers to goals.
mod Lists
mod Grown
mod Ordered
mod Trees
mod Paths
mod Found
mod Emitted
mod Listed
mod Planned
mod ByteKinds
mod Sized
mod Typed
mod Alone
mod Compiled
