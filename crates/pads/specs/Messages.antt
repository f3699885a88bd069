-- Messages of the callers' own choosing (document 02, 1): blocks of bytes, the three calls and which input they accept,
-- and that the message wanted is opened.
pub mod Bytes
pub mod Calls
pub mod Opening
