-- The definitions of `pads_rule`, all of them inner: its contracts cite what `pads` says.
pub mod Inner
