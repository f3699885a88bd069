-- Laws of the verdict and of its line, and what is found equal.
pub mod Laws
pub mod Same
