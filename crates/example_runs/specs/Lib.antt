-- The computed examples of windows that begin at different indices, and of a circuit of three ANDs in steps and in rounds.
pub mod Windows
pub mod Runs
