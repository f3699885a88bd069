-- The computed examples of trees of more than one level.
pub mod Levels
