-- The laws of `aes_rows`.
mod Sharing
mod RowRounds
