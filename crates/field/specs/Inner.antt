-- Inner: no promise cites this folder. What inner functions' contracts and the proofs use.
pub mod Elements
pub mod Parts
pub mod Written
