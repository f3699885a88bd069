-- `circuit::gates::read_gates`: what is left of the gates is the answer.
use Rattle.circuit.proofs.Turns.{GatesTurn}
use Rattle.circuit.proofs.gates.read_gates.Given as goal

abbrev pub invariant-loop-i : goal.invariant-loop-i
invariant-loop-i l = GatesTurn l.source l.body l.gates l.inputs l.at l.ands l.i
