-- FIPS 197 (2023) for a key of 128 bits: the state and the cipher.
pub mod State
pub mod Cipher
pub mod Inner
