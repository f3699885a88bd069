-- Key records (document 01, 'Key records', 'Numbers of the calls'): content, what is admitted, writing, reading, what the code's answers stand for,
-- and lengths.
pub mod Content
pub mod Admitted
pub mod Writing
pub mod Reading
pub mod Answer
pub mod Lengths
pub mod Inner
