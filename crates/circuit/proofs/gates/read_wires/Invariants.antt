-- `circuit::gates::read_wires`: what is left of the wires is the answer.
use Rattle.circuit.proofs.Turns.{WiresTurn}
use Rattle.circuit.proofs.gates.read_wires.Given as goal

abbrev pub invariant-loop : goal.invariant-loop
invariant-loop l = WiresTurn l.source l.tail l.count l.limit l.at l.counter
