-- The scalar end, which gets w and the scalar Δ: the vector of its part of a dealing, its two calls, and its expansion for the bench.
pub mod Vectors
pub mod Offline
pub mod Online
pub mod Bench
