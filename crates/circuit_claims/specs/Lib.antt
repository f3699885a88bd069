-- Runs of a circuit, in steps (document 02, 9) and in rounds (circuits in rounds): lists of calls, progress, which calls are accepted,
-- what two ends have together, and that both ways give the same.
pub mod Calls
pub mod Runs
pub mod Progress
pub mod Evaluation
pub mod Acceptance
pub mod RoundRuns
pub mod RoundProgress
pub mod RoundEvaluation
pub mod RoundAcceptance
pub mod Same
pub mod Transcript
pub mod Inner
