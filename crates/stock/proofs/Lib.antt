-- Laws of the stock and of lists of calls on it, and the inhabitants of the statements.
pub mod Cases
pub mod Entries
pub mod Calls
pub mod Opened
pub mod Blocks
mod Picked
pub mod Steps
mod Callers
pub mod Runs
mod Draws
pub mod Claims
