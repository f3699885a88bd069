-- Circuits (document 02, 9): content, what is admitted, value, levels, writing, reading, what the code's answer stands for, and that each content has
-- one writing.
pub mod Content
pub mod Admitted
pub mod Value
pub mod Levels
pub mod Writing
pub mod Reading
pub mod Answer
pub mod OneWriting
pub mod Inner
