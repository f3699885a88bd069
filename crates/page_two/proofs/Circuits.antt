-- That the library's circuits are the page's: content, reading, rounds, steps, descriptions.
pub mod Content
pub mod Reading
pub mod Describe
pub mod Runs
pub mod Round
pub mod Step
