-- The definitions of `pads_messages`, all of them inner: its contracts cite what `pads` says.
pub mod Inner
