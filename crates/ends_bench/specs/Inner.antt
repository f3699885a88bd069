-- Inner: no promise cites this folder. What inner functions' contracts and the proofs use.
pub mod Rows
pub mod Calls
