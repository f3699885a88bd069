-- The laws of the scalar end.
pub mod Laws
pub mod Content
