-- The computed examples on pads, one inhabitant of each statement of specs/.
pub mod Pads
pub mod Messages
pub mod Triples
pub mod Circuit
