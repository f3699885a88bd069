-- The laws of the noise end.
pub mod Laws
pub mod Content
