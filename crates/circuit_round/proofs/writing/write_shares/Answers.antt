-- `circuit_round::writing::write_shares` meets its contract. Assumes nothing.
use mathlib.Core.Path.{sym, ◌∙◌}
use Rattle.circuit_run.proofs.RoundGates.{share-at}
use Rattle.circuit_run.proofs.Wires.{outputs-next}
use Rattle.circuit_round.proofs.writing.write_shares.Goals as goal

pub loop-i-preserved : goal.loop-i-preserved
loop-i-preserved c = (
  c.in-Some.ensures.goes.keeps,
  tt,
  rw (c.in-Some.ensures.steps.1, c.in-Some.ensures.steps.2)
      (outputs-next c.args.circuit.read c.requires c.loop-i.invariant.2 c.in-Some.ensures.steps.0
      (c.share_of.ensures ∙ sym (share-at c.args.wires.now c.in-Some.wire))),
)
