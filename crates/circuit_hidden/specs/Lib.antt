-- What an end sees of finished runs of a circuit, in rounds and in steps, and what it does not.
pub mod Run
pub mod Hidden
pub mod Example
