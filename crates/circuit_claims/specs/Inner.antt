-- Inner: no promise cites these files. What the statements about runs rest on.
pub mod ByAnd
