-- The proofs that finished runs are transcripts, and show no more than the opened outputs.
pub mod Runs
pub mod Received
pub mod Example
mod Agrees
mod Formed
mod Hiding
mod Lists
mod Plays
mod Rounds
mod Steps
