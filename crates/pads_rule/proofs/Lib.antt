-- The laws of `pads_rule`.
mod Needs
