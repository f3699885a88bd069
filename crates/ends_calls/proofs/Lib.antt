-- The laws of `ends_calls`, which its functions' proofs use.
mod Calls
mod Delta
mod Added
mod Rest
