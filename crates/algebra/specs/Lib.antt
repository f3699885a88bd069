-- The definitions of `algebra`, in the order in which document 01 needs them.
pub mod Choice
pub mod Every
pub mod Group
pub mod Sum
pub mod Order
pub mod Row
pub mod Coding
pub mod Words
pub mod Field
pub mod Expansion
pub mod Common
pub mod Inner
