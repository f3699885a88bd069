-- Laws of parts and of words as numbers, for any circuit; that the market's circuit clears, runs of it, its size and bytes.
pub mod Holds
pub mod Words
mod Marks
pub mod Digits
pub mod Shape
pub mod Choices
mod Clearing
mod Inputs
pub mod Cleared
pub mod Prices
pub mod Depth
