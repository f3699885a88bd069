-- The definitions of `aes_rows`, all of them inner: its contracts cite FIPS 197 as `aes128` says it.
pub mod Inner
