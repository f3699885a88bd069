-- The step (document 02, 9) and the round (circuits in rounds) of an end's run of a circuit.
pub mod Step
pub mod Round
pub mod Inner
