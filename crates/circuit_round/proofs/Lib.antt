-- The laws of `circuit_round`, which its functions' proofs use.
mod Leaves
mod Passes
