-- The computed examples on the pads of two small dealings of field 1: pads, messages, triples, and a circuit.
pub mod Pads
pub mod Messages
pub mod Triples
pub mod Circuit
