-- `circuits::expander_circuit_step` meets the page's contract. Assumes nothing.
use Rattle.page_two.proofs.Circuits.Step.{circuit-stepped}
use Rattle.expander.proofs.circuits.expander_circuit_step.Goals as goal

pub returns : goal.returns
returns c = search circuit-stepped
