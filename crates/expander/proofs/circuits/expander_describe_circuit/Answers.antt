-- `circuits::expander_describe_circuit` meets the page's contract. Assumes nothing.
use Rattle.page_two.proofs.Circuits.Describe.{circuit-described}
use Rattle.expander.proofs.circuits.expander_describe_circuit.Goals as goal

pub returns : goal.returns
returns c = search circuit-described
