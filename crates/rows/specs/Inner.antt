-- Inner: no promise cites this folder. The sums of a row so far.
pub mod Sums
pub mod Walked
