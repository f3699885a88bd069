-- What the calls answer (document 01, 'Numbers of the calls'): the numbers, a call's tests in their order, and its outcome.
pub mod Numbers
pub mod Refused
pub mod Bytes
pub mod Tests
pub mod Outcome
pub mod Inner
