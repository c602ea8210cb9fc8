-- The files of this crate's definitions.
pub mod Parts
pub mod Bits
pub mod Stacks
pub mod Tops
pub mod Laid
