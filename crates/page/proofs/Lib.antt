-- That the library's definitions are the page's, from the cipher up to the calls and the pair program's line.
pub mod Basics
pub mod Cipher
pub mod Trees
pub mod Fields
pub mod Rows
pub mod Vectors
pub mod Reading
pub mod Calls
pub mod Pads
pub mod Dealing
pub mod Contents
pub mod Paired
pub mod Returned
