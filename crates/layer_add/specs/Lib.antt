-- The definitions of `layer_add`.
pub mod Add
pub mod Inner
