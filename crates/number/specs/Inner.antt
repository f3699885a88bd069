-- Inner: no promise cites this folder. What inner functions' contracts and the proofs use.
pub mod Known
pub mod Written
pub mod Tested
