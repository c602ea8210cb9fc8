-- The files of this crate's definitions.
pub mod Shapes
pub mod Paths
pub mod Translated
pub mod Programs
