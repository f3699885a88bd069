-- The laws of a row's sums. Callers use Sums.
mod Turns
pub mod Walks
pub mod Sums
