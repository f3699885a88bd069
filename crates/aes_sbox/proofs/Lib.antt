-- The laws of `aes_sbox`.
pub mod Every
mod Rules
pub mod Bounds
mod Bytes
pub mod Columns
mod Filled
