-- The laws of `tree_walk`.
mod Made
mod Walked
pub mod Ways
