-- Both ends (document 01, 'What the unit contains', 'Offline and online'): what their calls are made of, each end's vectors, two calls
-- and expansion for the bench, and what the bench shows (document 02, 11).
pub mod Parts
pub mod Noise
pub mod Scalar
pub mod Bench
pub mod Inner
