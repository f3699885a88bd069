-- Document 01's statements over its page, to be read without the proofs.
pub mod Statements
