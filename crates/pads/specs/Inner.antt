-- Inner: no promise cites this folder. The pad rule in two steps.
pub mod Passes
