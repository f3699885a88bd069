-- The number code of records (document 01, 'Key records').
pub mod Reading
pub mod Number
pub mod Answer
pub mod Inner
