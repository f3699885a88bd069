-- Two layers of each field.
pub mod Two
