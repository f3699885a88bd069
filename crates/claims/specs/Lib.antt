-- What document 01's calls do together, said of workings (`page_claims` promises it over the page); the statements on what accumulated
-- buffers tell, and on messages, triples and circuits, in steps and in rounds, on pads of dealings (document 02, 1, 6 and 9; circuits in
-- rounds), to be read without the proofs.
pub mod Records
pub mod Source
pub mod Correlation
pub mod Acceptance
pub mod Pairing
pub mod Buffers
pub mod Cases
pub mod Taken
pub mod Formed
pub mod Messages
pub mod Triples
pub mod Circuits
pub mod RoundCircuits
