-- `circuit_round::passing::take_inputs`: the inputs passed have their bytes, the rest is as it was.
use Rattle.circuit_run.proofs.Inputs.{InputTurn}
use Rattle.circuit_round.proofs.passing.take_inputs.Given as goal

abbrev pub invariant-loop-i : goal.invariant-loop-i
invariant-loop-i l = InputTurn l.shares l.initial.wires l.wires l.i
