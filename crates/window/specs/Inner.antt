-- Inner: no promise cites this folder. What inner functions' contracts and the proofs use.
pub mod Sizes
pub mod Outputs
pub mod Testing
pub mod Written
pub mod Numbers
