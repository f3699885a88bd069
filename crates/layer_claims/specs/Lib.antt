-- Layers, several dealings added into one, in workings: what they are, the ways to add them up, demand 3's claim about every two lists of
-- calls, and layers as a source of outputs. The promise is `Layers` of `page_beyond`, over the pages.
pub mod Layers
pub mod Adding
pub mod Correlation
pub mod Outputs
