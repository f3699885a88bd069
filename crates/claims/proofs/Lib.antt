-- The proofs of the statements of specs/, one inhabitant each in the files that are public, and beside them what each listed call leaves
-- (`Lists`), and what follows for the triples of one call of each end and of several.
mod Dealt
pub mod Outputs
pub mod Lists
pub mod Pads
pub mod Entire
pub mod Paired
pub mod Starred
pub mod Buffers
mod Taken
pub mod Messages
pub mod Triples
pub mod Gathered
pub mod CircuitRuns
pub mod RoundRuns
