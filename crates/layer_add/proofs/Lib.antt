-- The laws of `layer_add`.
pub mod Turns
pub mod Sums
