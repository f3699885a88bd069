-- The call that describes a circuit (circuits in rounds).
pub mod Describe
pub mod Inner
