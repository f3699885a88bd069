-- What the calls return, and that they agree.
pub mod Returns
pub mod Agreeing
