-- What the steps of the dealing call write, and when. The call itself is defined in crate `dealing`.
pub mod Inner
