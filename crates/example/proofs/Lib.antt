-- The computed examples, FIPS 197's among them, by a cipher that looks its bytes up in tables.
pub mod Cipher
pub mod Made
mod Published
pub mod Dealt
pub mod Worked
pub mod Computed
pub mod PadRule
pub mod Stock
