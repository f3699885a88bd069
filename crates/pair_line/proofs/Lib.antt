-- The laws of `pair_line`, which its functions' proofs use.
mod Digits
mod Judged
mod Lines
mod Outputs
