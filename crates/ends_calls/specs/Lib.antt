-- The definitions of `ends_calls`: what its calls say stands in `ends`.
pub mod Inner
