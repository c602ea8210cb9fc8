-- The files of this crate's definitions.
pub mod Status
pub mod Names
pub mod Texts
pub mod Answer
pub mod Refusals
pub mod Source
pub mod Stops
pub mod Leads
