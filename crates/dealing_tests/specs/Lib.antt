-- The definitions of `dealing_tests`, all of them inner: its contracts cite what `dealing` says.
pub mod Inner
