-- Laws of the rows that a record's head gives, and of a window that both ends write.
pub mod Rows
pub mod Sizes
pub mod Blocks
pub mod Numbers
pub mod Passed
pub mod Filled
pub mod Tested
