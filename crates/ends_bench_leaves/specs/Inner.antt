-- Inner: no promise cites this folder. What inner functions' contracts and the proofs use.
pub mod Vectors
pub mod Trees
pub mod Made
