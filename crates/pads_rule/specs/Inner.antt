-- Inner: no promise cites this folder. What the inner functions ask of their callers.
pub mod Steps
