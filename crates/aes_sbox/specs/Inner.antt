-- Inner: no promise cites this folder. What the tables that the cipher is lent hold.
pub mod Wide
pub mod Tables
