-- Inner: no promise cites these files. How the fills go down a tree.
pub mod Ranges
