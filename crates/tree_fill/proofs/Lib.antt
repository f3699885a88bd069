-- The laws of `tree_fill`.
mod Ranges
mod Elements
mod Filled
