-- `circuit::gates::read_wires` meets its contract. Assumes nothing.
use Rattle.answer.proofs.Refusals.{passed_on}
use Rattle.circuit.proofs.Turns.{wires-fault, wires-next, wires_done}
use Rattle.circuit.proofs.gates.read_wires.Goals as goal

pub returns-in_err-next : goal.returns-in_err-next
returns-in_err-next c = rw (passed_on c.from_residual.result c.from_residual.ensures.1) (wires-fault c.loop.invariant c.loop-test.true c.in_err-next.ensures)

pub loop-preserved : goal.loop-preserved
loop-preserved c = wires-next c.loop.invariant c.loop-test.true c.in_ok-next.ensures

pub returns : goal.returns
returns c = search wires_done
