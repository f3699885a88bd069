-- AND triples (document 02, 6): the triple of an output, the call and which input it accepts, and that both ends' triples match.
pub mod Triple
pub mod Call
pub mod Matching
