-- The laws of `answer`: slices, lengths and windows as code tests them, the first fault of a list of tests, and what a call returns by it.
pub mod Above
pub mod Products
pub mod Refusals
pub mod Faults
pub mod Joined
pub mod Answers
pub mod Returns
