-- The laws of `prime`: arithmetic modulo p, the laws of field 2, and elements as signed numbers.
pub mod Modular
pub mod PrimeField
pub mod Around
pub mod SignedNeeds
