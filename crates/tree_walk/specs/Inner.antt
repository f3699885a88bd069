-- Inner: no promise cites these files. A level of a walk, and ways down to a leaf.
pub mod Levels
pub mod Ways
