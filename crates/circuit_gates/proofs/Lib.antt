-- The laws of `circuit_gates`, which its functions' proofs use.
mod Leaves
