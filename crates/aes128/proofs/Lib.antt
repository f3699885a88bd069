-- The laws of `aes128`. Callers use Wide, Sizes, Given, Words, Columns, Last and Rounds.
pub mod Words
pub mod Wide
pub mod Columns
pub mod Last
mod Held
mod Expansion
pub mod Rounds
pub mod Sizes
pub mod Given
