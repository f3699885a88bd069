-- `circuit_step::waiting::place_of`: the gates from here are left to read, and the ANDs before are counted.
use Rattle.circuit_run.proofs.Gates.{PlaceTurn}
use Rattle.circuit_step.proofs.waiting.place_of.Given as goal

abbrev pub invariant-loop-i : goal.invariant-loop-i
invariant-loop-i l = PlaceTurn l.source l.layout.inputs l.gate l.at l.ands l.i
