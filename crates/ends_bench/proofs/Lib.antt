-- The laws of `ends_bench`, by the module that they serve.
mod ByStrips
mod Rows
mod Strips
mod Calls
