-- The laws of `pads`: what lies where in a written buffer, which input is accepted and what is refused, the rule in two steps, the
-- choice law, and the laws of messages and of triples.
pub mod Blocks
pub mod Accepts
pub mod Refused
pub mod Steps
pub mod Choice
pub mod Messages
pub mod Triples
