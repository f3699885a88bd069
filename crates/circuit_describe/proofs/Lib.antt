-- The laws of the description of a circuit.
mod Levels
mod Returns
