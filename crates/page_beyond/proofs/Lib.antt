-- The proofs of what stands beyond both documents: layers, what a run shows, bids to price.
pub mod Sums
pub mod Layers
pub mod Market
pub mod Shown
