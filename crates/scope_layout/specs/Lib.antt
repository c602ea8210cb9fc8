-- The files of this crate's definitions.
pub mod Paths
pub mod Layers
pub mod Leads
pub mod Laws
pub mod Codes
