-- Inner: no promise cites this folder. What the proofs use.
pub mod Numbered
