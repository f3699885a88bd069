-- The noise end, which gets u and v: the vectors of its part of a dealing, its two calls, and its expansion for the bench.
pub mod Vectors
pub mod Offline
pub mod Online
pub mod Bench
