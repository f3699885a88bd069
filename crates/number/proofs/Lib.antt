-- The laws of `number`.
pub mod Laws
pub mod Records
pub mod Places
mod Steps
pub mod Tests
