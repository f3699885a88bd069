-- The definitions of `ends_bench_leaves`, all of them inner.
pub mod Inner
