-- The laws of both ends: of vectors in words, and each end's; and the inhabitant of the statement about the bench.
pub mod Vectors
pub mod noise
pub mod scalar
pub mod Same
