-- The two fields of document 01 ('Two fields') by their number, and how words lie in bytes. Field 2's arithmetic stands in crate `prime`.
pub mod Bytes
pub mod Binary
pub mod Kind
pub mod ByNumber
pub mod Inner
