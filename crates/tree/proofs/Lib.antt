-- The laws of `tree`. Callers use Laws (any tree), Paths, Added, Blocks (siblings in bytes too), Nodes, ChildLaws, Listed, Levels, Sums (trees added in place) and PowerLaws; Bits has the inhabitant of a statement, and Stored what may be lent.
pub mod Paths
pub mod Laws
pub mod Bits
pub mod Added
pub mod Blocks
pub mod Nodes
pub mod ChildLaws
pub mod Stored
pub mod Listed
pub mod PowerLaws
pub mod Levels
pub mod Sums
