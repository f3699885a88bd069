-- The dealing (document 01, 'Dealing'): its input, what is admitted, its vectors and outputs, both ends' parts, and the call.
pub mod Input
pub mod Admitted
pub mod Vectors
pub mod Parts
pub mod Deal
pub mod Inner
