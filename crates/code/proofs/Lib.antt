-- The laws of `code`. Callers use Laws, Strips, Terms and Tested.
pub mod Laws
pub mod Strips
pub mod Terms
pub mod Tested
