-- The definitions of `pads_calls`, all of them inner: its contracts cite what `pads` says.
pub mod Inner
