-- That the statements hold, each from the workings' law and the equality of page and workings.
pub mod Taken
pub mod Pads
pub mod Messages
pub mod Stocks
pub mod Amounts
pub mod Faults
pub mod Bench
pub mod Buffers
pub mod Descriptions
pub mod Circuits
