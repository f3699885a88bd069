-- Document 02's statements over the pages, to be read without the proofs.
pub mod Statements
