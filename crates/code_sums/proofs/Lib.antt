-- The laws of `code_sums`.
mod InPlace
