-- What a record's head says to an end that holds only bytes: the call, and that its sizes are those that the end's calls use.
pub mod Describe
pub mod Sizing
