-- The laws of triples: which input is accepted and what is refused, what the loop writes, and that both ends' triples match.
pub mod Accepts
pub mod Refused
pub mod Turns
pub mod Matching
