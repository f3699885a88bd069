-- Stock for up to eight callers (document 02, 2, 5 and 14): labels, what a stock holds, the calls, and what is claimed of every list of
-- calls.
pub mod Label
pub mod Stock
pub mod Calls
pub mod Lists
