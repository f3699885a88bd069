-- The definitions of `tree_walk`, all of them inner: its contracts cite what `tree` says.
pub mod Inner
