-- Inner: no promise cites these files. What the functions of `circuit` say to each other.
pub mod GateNumbers
pub mod Passing
pub mod Layouts
pub mod Opened
