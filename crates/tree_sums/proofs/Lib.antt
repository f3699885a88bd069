-- The laws of `tree_sums`, which the proofs of `tree_fill` use too.
pub mod Ranges
pub mod Halves
pub mod Elements
pub mod Bottom
pub mod Couples
