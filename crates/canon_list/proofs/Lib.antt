-- The files of this crate's laws and answers to goals.
mod Counting
mod Typed
mod Alone
mod Trees
mod Rows
mod Canons
mod Gathers
