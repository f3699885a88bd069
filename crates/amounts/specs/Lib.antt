-- Signed amounts (document 02, 13): both calls, and that they agree with each other and with the field.
pub mod Calls
pub mod Agree
