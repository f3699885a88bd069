-- Inner: no promise cites these files. What is added below consecutive children of a node.
pub mod Ranges
