-- `circuits::expander_circuit_round` meets the page's contract. Assumes nothing.
use Rattle.page_two.proofs.Circuits.Round.{circuit-rounded}
use Rattle.expander.proofs.circuits.expander_circuit_round.Goals as goal

pub returns : goal.returns
returns c = search circuit-rounded
