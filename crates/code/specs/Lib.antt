-- Rows of the code (document 01, 'Offline and online'; document 02, 7), and what a row reads.
pub mod Row
pub mod Strips
pub mod Inner
