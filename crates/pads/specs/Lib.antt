-- Pads (document 01, 'Pads'): blocks in bytes, the pad rule, both calls and which input they accept, and the choice law; and what is
-- made of pads: messages of the callers' own choosing and AND triples (document 02, 1 and 6).
pub mod Bytes
pub mod Pad
pub mod Calls
pub mod Choice
pub mod Messages
pub mod Triples
pub mod Inner
