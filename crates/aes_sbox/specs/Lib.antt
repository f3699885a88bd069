-- FIPS 197 (2023): the S-box, and what the table that holds it has at each entry.
pub mod Byte
pub mod Table
pub mod Inner
