-- Inner: no promise cites these files. What the functions of `circuit_describe` say to each other.
pub mod Levels
