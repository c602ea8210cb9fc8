-- The files of this crate's definitions.
pub mod Last
pub mod Leaves
pub mod Printed
pub mod Reads
pub mod Written
