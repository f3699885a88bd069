-- The definitions of `tree_sums`, all of them inner.
pub mod Inner
