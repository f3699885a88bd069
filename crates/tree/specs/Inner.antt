-- Inner: no promise cites these files. Round keys as they are lent, nodes as blocks, and what is asked of a tree.
pub mod Keys
pub mod Nodes
pub mod Branches
