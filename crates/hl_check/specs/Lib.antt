-- The files of this crate's definitions.
pub mod Arms
pub mod Forms
pub mod Jets
pub mod Knowns
pub mod Nests
pub mod Scopes
pub mod Tells
