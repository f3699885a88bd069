-- The laws of `stock_calls`, which its functions' proofs use.
mod LabelOrder
mod Needs
mod Passed
