-- The definitions of `rows`, all of them inner: its contracts cite the rows as `code` says them.
pub mod Inner
