-- Types of this crate that are lists and boxes.
pub mod boxed
pub mod sequence
