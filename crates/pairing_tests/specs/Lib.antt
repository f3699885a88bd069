-- The definitions of `pairing_tests`, all of them inner: its contracts cite what `pairing` says.
pub mod Inner
