-- The definitions of `tree_fill`, all of them inner: its contracts cite what `tree` says that expanding a tree gives.
pub mod Inner
