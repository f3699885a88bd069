-- The market: circuits of parts, the market's circuit, what clears, bids as inputs, bids to price, its size, the demo's bytes.
pub mod Building
pub mod Circuit
pub mod Clears
pub mod Bids
pub mod Price
pub mod Counts
pub mod Bytes
