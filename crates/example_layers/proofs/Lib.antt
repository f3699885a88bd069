-- The two layers of each field, by computation.
pub mod Two
