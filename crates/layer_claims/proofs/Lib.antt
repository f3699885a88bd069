-- The proofs about layers: the single claim (`Lists`), and layers as a source and one layer alone (`Outputs`).
pub mod Adding
pub mod Sums
pub mod Lists
pub mod Outputs
