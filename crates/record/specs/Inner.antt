-- Inner: no promise cites this folder. What inner functions' contracts and the proofs use.
pub mod Rising
pub mod Heads
pub mod Answers
pub mod Lengths
pub mod Ends
