-- The laws of `circuit`.
pub mod Ands
pub mod Exact
pub mod Folds
pub mod Levels
pub mod Lists
pub mod Refusals
pub mod Values
mod Fields
pub mod Turns
mod Circuits
pub mod Iterators
mod Second
