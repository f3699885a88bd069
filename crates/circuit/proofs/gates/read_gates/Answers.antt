-- `circuit::gates::read_gates` meets its contract. Assumes nothing.
use Rattle.answer.proofs.Refusals.{passed_on}
use Rattle.circuit.proofs.Ands.{one_for}
use Rattle.circuit.proofs.Turns.{gates-fault, gates-next, gates_done}
use Rattle.circuit.specs.Inner.GateNumbers.{gate_of}
use Rattle.circuit.proofs.gates.read_gates.Goals as goal

pub returns-in_err-gate : goal.returns-in_err-gate
returns-in_err-gate c = rw (passed_on c.from_residual.result c.from_residual.ensures.1) (gates-fault c.loop-i.invariant c.loop-i-test.true c.in_err-gate.ensures)

pub loop-i-preserved : goal.loop-i-preserved
loop-i-preserved c =
    gates-next c.loop-i.invariant c.loop-i-test.true c.in_ok-gate.ensures (one_for (gate_of c.in_ok-gate.gate) c.from-ands.ensures c.is_and.ensures)

pub returns : goal.returns
returns c = search gates_done
