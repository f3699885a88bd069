-- The computed examples of windows and of a circuit of three ANDs, applied to the statements themselves.
pub mod Windows
pub mod Runs
