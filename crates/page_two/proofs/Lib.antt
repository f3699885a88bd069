-- That the library's definitions are the page's, request by request, and what that gives each exported call.
pub mod Basics
pub mod Messages
pub mod Stocks
pub mod Bench
pub mod Amounts
pub mod Descriptions
pub mod Layers
pub mod Circuits
