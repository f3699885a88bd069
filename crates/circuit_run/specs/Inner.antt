-- Inner: no promise cites these files. What the functions of a step, and of a round, say to each other.
pub mod StepTests
pub mod Places
pub mod RoundTests
pub mod RoundGates
pub mod RoundPasses
