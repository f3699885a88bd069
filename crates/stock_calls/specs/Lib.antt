-- The definitions of `stock_calls`, all of them inner: its contracts cite what `stock` says.
pub mod Inner
