-- The statements about runs of a circuit, in steps and in rounds.
pub mod Accepts
pub mod Evaluates
pub mod Progresses
pub mod RoundAccepts
pub mod RoundEvaluates
pub mod RoundProgresses
pub mod Sames
pub mod AndGates
pub mod Bytes
pub mod Calls
pub mod Chains
pub mod CircuitCalls
pub mod Joins
pub mod RoundChains
pub mod RoundTranscripts
pub mod Transcripts
mod Bits
pub mod Counts
mod Gives
mod Reaches
pub mod Stages
