-- `circuit_step::running::run_on`: the run from here is the run from the start.
use Rattle.circuit_run.proofs.Gates.{RunTurn}
use Rattle.circuit_step.proofs.running.run_on.Given as goal

abbrev pub invariant-loop-gate : goal.invariant-loop-gate
invariant-loop-gate l = RunTurn l.source l.layout.inputs l.role l.from.ands l.from.gate l.initial.wires l.at l.gate l.wires
