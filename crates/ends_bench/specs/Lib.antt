-- The definitions of `ends_bench`, all of them inner: its contracts cite what `ends` says.
pub mod Inner
