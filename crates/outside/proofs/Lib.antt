-- The files of this crate's laws and answers to goals.
mod HeldFiles
mod KeptPlans
mod Written
