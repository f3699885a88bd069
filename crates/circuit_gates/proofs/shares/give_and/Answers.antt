-- `circuit_gates::shares::give_and` meets its contract. Assumes nothing.
use Rattle.circuit_run.proofs.Wires.{given}
use Rattle.circuit_gates.proofs.shares.give_and.Goals as goal

pub returns : goal.returns
returns c = search given
