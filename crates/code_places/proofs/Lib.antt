-- The law of `code_places` of its own.
pub mod Words
