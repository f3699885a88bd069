-- `circuit_step::running::write_outputs` meets its contract. Assumes nothing.
use mathlib.Core.Path.{refl}
use Rattle.circuit_run.proofs.Wires.{outputs-next}
use Rattle.circuit_step.proofs.running.write_outputs.Goals as goal

pub loop-i-preserved : goal.loop-i-preserved
loop-i-preserved c = (
  c.in-Some.ensures.goes.keeps,
  tt,
  rw (c.in-Some.ensures.steps.1, c.in-Some.ensures.steps.2)
      (outputs-next c.args.circuit.read c.requires c.loop-i.invariant.2 c.in-Some.ensures.steps.0 refl),
)
