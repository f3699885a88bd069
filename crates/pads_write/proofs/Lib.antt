-- The loops of `pads_write`.
pub mod Turns
