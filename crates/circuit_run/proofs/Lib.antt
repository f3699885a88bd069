-- The laws of `circuit_run`: of steps, then of rounds.
pub mod Bits
pub mod Numbers
pub mod Gates
pub mod Wires
pub mod Steps
pub mod Waiting
pub mod Inputs
pub mod RoundGates
pub mod Opened
pub mod Rounds
