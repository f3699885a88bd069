-- Inner: no promise cites this folder. What an accepted record is, and the trees of one, one after the other.
pub mod Accepted
pub mod Left
pub mod Reads
pub mod Trees
