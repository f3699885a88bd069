-- The definitions of `tree` (document 01, 'Trees').
pub mod Tree
pub mod Follows
pub mod Bits
pub mod Child
pub mod Columns
pub mod Added
pub mod Expanded
pub mod KeySchedules
pub mod Inner
