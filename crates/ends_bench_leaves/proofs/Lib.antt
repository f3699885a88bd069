-- The laws of `ends_bench_leaves`, which its functions' proofs use.
mod Starts
mod Tables
mod Leaves
mod Words
