-- The laws of `pairing_tests`. Callers use Same.
pub mod Same
mod Turns
