-- The files of this crate's laws and answers to goals.
pub mod Layers
pub mod Spelling
pub mod Walking
pub mod AsExpressions
pub mod AsTexts
pub mod Texts
