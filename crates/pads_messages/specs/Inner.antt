-- Inner: no promise cites this file. Declares the definitions that inner functions and proofs alone use.
pub mod Tests
