-- The laws of messages: lengths and numbers, which input is accepted and what is refused, what the loops write, and that the message wanted is
-- opened.
pub mod Accepts
pub mod Refused
pub mod Turns
pub mod Fronts
pub mod Opening
