-- That the statements hold, each from the workings' law and the equality of page and workings.
pub mod Outputs
pub mod Answers
pub mod Lists
pub mod Entire
pub mod Records
pub mod Cases
pub mod Shapes
pub mod Acceptance
