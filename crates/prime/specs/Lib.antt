-- Field 2 (document 01, 'Two fields'), and its elements as signed numbers (document 02, 13).
pub mod Prime
pub mod Signed
