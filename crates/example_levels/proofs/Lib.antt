-- The computed examples of trees of more than one level, by the cipher that looks its bytes up.
pub mod Levels
