-- The field, the places and the rows that the head of a record gives, and which windows have only usable places.
pub mod Head
pub mod Usable
pub mod Inner
