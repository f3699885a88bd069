-- What the dealing's numbers mean, and that both ends' parts are admitted contents.
pub mod Positions
pub mod Faults
pub mod Parts
pub mod Laws
pub mod Tests
pub mod Lengths
pub mod Number
