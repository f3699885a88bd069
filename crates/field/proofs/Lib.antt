-- The laws of `field`: words in bytes, the laws of field 1 and of both fields by their number, and elements in words and accumulated.
pub mod Scale
pub mod Xor
pub mod ByteWords
pub mod BinaryField
pub mod BothKinds
pub mod KindOf
pub mod Widths
pub mod Accumulated
pub mod Elements
