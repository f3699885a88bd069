-- Inner: no promise cites this folder. What the blocks of a row share.
pub mod Row
