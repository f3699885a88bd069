-- That the statements about circuits hold, from the laws about the library's circuits.
pub mod Made
pub mod Levels
pub mod Steps
pub mod Rounds
pub mod Like
pub mod Whole
