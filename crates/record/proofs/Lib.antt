-- The laws of `record`.
pub mod Again
pub mod Callers
pub mod Exact
pub mod Fields
pub mod Heads
pub mod Items
pub mod Laws
pub mod Lengths
pub mod Parts
pub mod RecordLengths
mod Rising
pub mod Writes
