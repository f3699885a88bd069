-- The computed examples: in each field the numbers of small dealings and lists of calls, and a list of calls on one stock.
pub mod Worked
pub mod Example
pub mod Stock
