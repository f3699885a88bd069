-- What the call returns, and that its sizes are those that the ends' calls use.
mod Returns
pub mod Sizing
