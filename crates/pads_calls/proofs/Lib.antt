-- The laws of `pads_calls`.
mod Outcomes
