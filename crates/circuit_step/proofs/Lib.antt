-- The laws of `circuit_step`, which its functions' proofs use.
mod Proceeds
